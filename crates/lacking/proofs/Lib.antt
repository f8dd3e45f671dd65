pub mod Coming
pub mod Fourths
