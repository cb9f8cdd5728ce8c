-- The modules of `proofs/` that belong to no one function.
pub mod Reduction
pub mod Sources
