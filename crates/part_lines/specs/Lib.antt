pub mod Texts
pub mod Reading
pub mod Rebuilding
pub mod Laws
