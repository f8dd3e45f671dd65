pub mod Chains
pub mod Found
pub mod Walks
pub mod Numbers
pub mod Stops
pub mod Plain
