pub mod Index
pub mod Counted
pub mod Lanes
pub mod Again
pub mod PreorderState
pub mod Composed
