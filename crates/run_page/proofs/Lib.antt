-- A history told entry by entry.
pub mod Told
