pub mod Saying
pub mod Lives
pub mod Laws
