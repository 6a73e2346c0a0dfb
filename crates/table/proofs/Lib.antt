-- The laws of this crate, for the proofs of this crate and of those above it.
pub mod Model
pub mod Same
