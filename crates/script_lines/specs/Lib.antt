pub mod Steps
pub mod Scripts
pub mod WordFields
pub mod Sayings
pub mod Given
