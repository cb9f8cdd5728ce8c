-- The modules of `proofs/` that belong to no one function.
pub mod Tests
pub mod Bits
pub mod Below
pub mod Ways
pub mod Members
pub mod Tautologies
pub mod RowLaws
pub mod TableLaws
pub mod MadeSets
pub mod Passing
pub mod Loops
pub mod Asking
pub mod Order
