pub mod Sorting
pub mod Telling
pub mod Said
pub mod SaidAlive
pub mod Answering
