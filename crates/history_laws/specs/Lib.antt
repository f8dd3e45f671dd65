pub mod Own
pub mod BenchLists
pub mod OwnLists
pub mod Leaves
pub mod Counts
