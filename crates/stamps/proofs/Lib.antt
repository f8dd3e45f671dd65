pub mod Sums
pub mod Counts
pub mod Places
mod Keeping
mod Closing
