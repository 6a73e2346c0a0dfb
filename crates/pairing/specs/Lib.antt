-- What the contracts of this crate cite: the definitions, what is handed back, and how the functions go.
pub mod Pairing
pub mod First
pub mod Contained
pub mod Members
pub mod Handed
pub mod Holders
pub mod Certificate
pub mod Looking
pub mod Choosing
