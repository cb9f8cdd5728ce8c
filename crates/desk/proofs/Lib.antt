-- The modules of `proofs/` that belong to no one function.
pub mod Placing
pub mod Serving
pub mod Calling
pub mod Keeping
pub mod Isolation
pub mod OnePlace
pub mod WayOut
pub mod JudgedBefore
