pub mod Labels
pub mod Counts
pub mod Marks
pub mod Replays
