pub mod Exchanges
pub mod Readings
pub mod Undoing
pub mod Writes
pub mod Front
pub mod Happenings
