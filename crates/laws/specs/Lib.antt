-- What the laws of this crate speak of.
pub mod Count
pub mod Marks
pub mod Tab
pub mod Text
