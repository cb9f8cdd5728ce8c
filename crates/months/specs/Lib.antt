pub mod Layout
pub mod Tallies
pub mod Pairs
pub mod Readings
pub mod Months
