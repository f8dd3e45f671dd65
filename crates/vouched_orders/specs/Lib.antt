pub mod Vouching
pub mod Tally
