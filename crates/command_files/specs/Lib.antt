pub mod Keys
pub mod Scenarios
