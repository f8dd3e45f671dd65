pub mod Alarm
pub mod Board
