pub mod Best
pub mod Maps
pub mod Known
pub mod Reached
pub mod Answering
pub mod Said
pub mod Others
pub mod InPlace
