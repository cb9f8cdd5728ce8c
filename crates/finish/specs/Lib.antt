pub mod Ways
pub mod Sequences
pub mod Parts
pub mod Shut
