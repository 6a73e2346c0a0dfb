-- The theory of pairings, over any numbers of equations and unknowns and any relation between them, and the steps of a search.
pub mod Sizes
pub mod Give
pub mod Along
pub mod Certify
pub mod Certificate
pub mod Turn
pub mod Solve
pub mod Lists
pub mod Deficit
pub mod Choice
pub mod Hall
pub mod Looking
pub mod Searching
pub mod Pass
pub mod Over
pub mod Trying
pub mod Settling
