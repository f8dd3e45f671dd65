mod Beginnings
pub mod Saying
mod Living
