-- What the contracts of this crate cite.
pub mod Printed
pub mod Steps
