-- The modules of `proofs/` that belong to no one function.
pub mod Narrow
pub mod Packed
pub mod Between
pub mod Gaining
pub mod Bytewise
pub mod Initial
pub mod Cuts
pub mod Along
pub mod Holding
pub mod Answers
pub mod FromTally
pub mod AfterEight
