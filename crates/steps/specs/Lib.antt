pub mod Rules
pub mod Rowwise
