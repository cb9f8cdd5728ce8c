-- The modules of `proofs/` that belong to no one function.
pub mod Backwards
pub mod Turns
pub mod Folds
pub mod LookBack
pub mod Alternate
pub mod Loops
pub mod Walks
pub mod Tallying
