pub mod Coming
pub mod Notes
pub mod Answers
pub mod Laws
