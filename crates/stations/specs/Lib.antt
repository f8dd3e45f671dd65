pub mod Taken
pub mod Telling
pub mod Asking
pub mod Marks
pub mod Station
pub mod Beginning
pub mod Going
