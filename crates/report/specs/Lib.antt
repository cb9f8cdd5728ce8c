pub mod Lent
pub mod Lines
pub mod Pairs
pub mod Listing
pub mod Choice
pub mod Summary
pub mod Marks
pub mod Puts
