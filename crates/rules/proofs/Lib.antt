-- The modules of `proofs/` that belong to no one function.
pub mod Places
pub mod Why
pub mod InTurn
pub mod LogLaws
pub mod Acceptable
pub mod Demand3
pub mod Listed
pub mod ByPairs
pub mod Cases
pub mod Readings
pub mod Slips
pub mod FromFile
pub mod Story
pub mod SameTraces
