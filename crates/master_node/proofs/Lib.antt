pub mod Events
pub mod Plants
pub mod Steps
pub mod Histories
pub mod Starting
pub mod Threads
