-- Lemmas of this crate.
mod Answering
