pub mod Walks
pub mod Facts
pub mod Stages
pub mod Mine
