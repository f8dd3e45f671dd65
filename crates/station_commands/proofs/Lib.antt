pub mod Scenarios
pub mod Holdings
pub mod Ends
pub mod Calls
