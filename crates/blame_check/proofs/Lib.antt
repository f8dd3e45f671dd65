pub mod Rivals
pub mod FirstPairs
pub mod Rising
pub mod Taken
pub mod Worth
