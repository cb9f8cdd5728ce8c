pub mod Pairs
pub mod Graphs
pub mod Results
pub mod Filling
pub mod Same
