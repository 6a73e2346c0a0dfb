-- The laws of this crate, for its proofs and for those of the crates above it.
pub mod Over
pub mod Pairs
pub mod High
pub mod Places
pub mod Fit
pub mod Gap
pub mod Raising
pub mod Kept
pub mod Work
pub mod Chosen
pub mod Pairable
