pub mod Traces
pub mod Mining
pub mod Mined
pub mod Replays
