-- What the contracts of this crate cite.
pub mod Outcome
pub mod Models
pub mod Written
