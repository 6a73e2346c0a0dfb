-- The laws of this crate.
pub mod One
pub mod Finite
pub mod RankBy
pub mod LeastBy
pub mod FirstBy
pub mod PlacedBy
pub mod Checked
pub mod Strips
pub mod Put
pub mod Refusal
pub mod Solution
pub mod Verdicts
pub mod Packed
pub mod Demands
