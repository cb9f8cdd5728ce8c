pub mod Port
pub mod Classroom
pub mod Desk
pub mod WayOut
pub mod Marks
pub mod Tallies
