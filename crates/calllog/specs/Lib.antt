pub mod Layout
pub mod Judged
pub mod Logs
pub mod Written
pub mod Reader
