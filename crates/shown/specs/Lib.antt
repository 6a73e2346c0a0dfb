-- What the contracts of this crate cite.
pub mod Sample
pub mod Printing
pub mod Judged
