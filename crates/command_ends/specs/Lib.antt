pub mod Output
pub mod Refusals
pub mod Steps
pub mod Calls
pub mod Loaded
pub mod Ended
pub mod Complete
