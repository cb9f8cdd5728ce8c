pub mod Markings
pub mod Relations
pub mod Steps
pub mod Enabled
pub mod Judged
pub mod Replay
pub mod Few
