pub mod Numbers
pub mod Opens
pub mod Sets
pub mod Editions
