pub mod Ran
pub mod Progress
pub mod Ready
