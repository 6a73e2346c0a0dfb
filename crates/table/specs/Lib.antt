-- What the contracts of this crate cite.
pub mod Model
pub mod Number
