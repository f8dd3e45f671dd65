pub mod Events
pub mod Leaves
pub mod Setup
pub mod Keeping
pub mod Legal
pub mod Audit
pub mod Sameness
pub mod Counts
