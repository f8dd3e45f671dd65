pub mod Spelled
pub mod Cutting
pub mod Steps
pub mod ReadBack
pub mod Own
pub mod Wrong
pub mod Words
