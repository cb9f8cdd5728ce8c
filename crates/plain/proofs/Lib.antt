-- The modules of `proofs/` that belong to no one function.
pub mod PairLaws
pub mod Stepping
pub mod Enabling
pub mod Putting
pub mod SameResults
pub mod SameGraphs
