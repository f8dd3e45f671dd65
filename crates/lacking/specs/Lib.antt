pub mod Come
pub mod Stands
pub mod Earlier
