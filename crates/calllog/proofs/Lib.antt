-- The modules of `proofs/` that belong to no one function.
pub mod Scans
pub mod Verdicts
pub mod Contents
pub mod Accepted
pub mod Given
pub mod Ends
pub mod Finding
pub mod Traces
pub mod Each
pub mod Writing
pub mod Bytes
pub mod Long
pub mod Examples
