pub mod Laws
pub mod Blame
