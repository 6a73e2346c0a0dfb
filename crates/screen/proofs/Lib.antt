-- The laws of the numbers handed back.
pub mod Unpacked
pub mod Theorems
