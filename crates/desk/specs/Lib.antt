pub mod Places
pub mod Desk
pub mod Histories
pub mod WayOut
