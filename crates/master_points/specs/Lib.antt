pub mod Lists
pub mod Effects
pub mod Orders
