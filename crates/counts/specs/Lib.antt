-- What the contracts of this crate cite.
pub mod Fit
pub mod Work
pub mod Kept
