pub mod Refusals
pub mod Opening
pub mod Holding
pub mod Lives
pub mod Courses
