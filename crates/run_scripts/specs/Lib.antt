pub mod Mail
pub mod Making
pub mod Playing
pub mod Crying
pub mod Laws
