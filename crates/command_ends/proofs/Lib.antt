pub mod Pieces
pub mod Courses
pub mod Endings
pub mod Completes
