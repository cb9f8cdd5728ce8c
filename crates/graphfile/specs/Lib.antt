pub mod Layout
pub mod Refusals
pub mod Held
pub mod Writing
pub mod Markings
pub mod Heads
