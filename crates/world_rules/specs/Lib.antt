pub mod Clients
pub mod Frames
pub mod Scenarios
pub mod Headline
pub mod Laws
pub mod Plant
