-- The modules of `proofs/` that belong to no one function.
pub mod EarlySteps
pub mod Exclusions
pub mod After
pub mod Replaying
pub mod OverLog
pub mod Composed
pub mod PairForPair
pub mod FromLog
pub mod Losing
pub mod Reopening
pub mod Settling
pub mod Given
pub mod AtEvents
