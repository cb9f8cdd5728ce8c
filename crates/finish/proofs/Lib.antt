-- The modules of `proofs/` that belong to no one function.
pub mod Settling
pub mod Searching
pub mod Sequences
pub mod Shutting
