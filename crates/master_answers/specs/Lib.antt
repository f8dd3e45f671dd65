pub mod Asked
pub mod Replica
pub mod Late
