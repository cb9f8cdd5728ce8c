pub mod Promised
pub mod Demanded
pub mod Counted
pub mod Redundant
pub mod SameTraces
pub mod Months
pub mod Wide
