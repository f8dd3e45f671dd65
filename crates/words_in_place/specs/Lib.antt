pub mod Laws
pub mod Spellings
pub mod Signing
