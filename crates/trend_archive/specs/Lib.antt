pub mod Trends
pub mod Boards
