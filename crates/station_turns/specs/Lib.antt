pub mod Pace
pub mod Turns
pub mod Naming
pub mod Checking
pub mod Laws
