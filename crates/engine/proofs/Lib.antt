-- The modules of `proofs/` that belong to no one function.
pub mod Judging
pub mod Stepping
pub mod Running
pub mod Enabling
pub mod Narrow
pub mod Acceptable
pub mod Examples
