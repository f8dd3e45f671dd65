pub mod Hash
pub mod Chains
pub mod Marks
pub mod Lanes
pub mod Steps
pub mod Made
pub mod Three
