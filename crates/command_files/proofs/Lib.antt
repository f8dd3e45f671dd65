mod Cuts
pub mod Rings
mod OwnKeys
mod Readings
