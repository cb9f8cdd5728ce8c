pub mod Passes
pub mod Tallies
