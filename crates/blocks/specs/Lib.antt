-- What the contracts of this crate cite.
pub mod Blocks
pub mod Handed
pub mod Steps
