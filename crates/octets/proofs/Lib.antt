-- The modules of `proofs/` that belong to no one function.
pub mod Codec
pub mod Parts
pub mod Rooms
pub mod NumberLaws
pub mod SetLaws
pub mod Opens
pub mod Editions
