pub mod Lending
pub mod BareReading
pub mod Packing
pub mod Handing
pub mod Desk
pub mod WayOut
pub mod Marks
pub mod Tallied
