pub mod Stations
pub mod Plain
pub mod Joint
pub mod Joining
pub mod Laws
