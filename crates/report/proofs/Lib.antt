-- The laws of the printed result.
pub mod ListLaws
pub mod TextLaws
pub mod Truth
pub mod Examining
pub mod Printing
pub mod Theorems
pub mod Examples
