-- What the contracts of this crate cite.
pub mod Text
pub mod Entry
pub mod Refusal
pub mod Card
pub mod Promise
pub mod Laid
pub mod Steps
