pub mod Masters
pub mod Quorum
