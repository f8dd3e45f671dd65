pub mod Courses
pub mod Hands
pub mod Letters
pub mod Ended
