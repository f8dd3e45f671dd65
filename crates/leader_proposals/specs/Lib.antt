pub mod Counting
pub mod Offering
pub mod Saying
pub mod Worthy
