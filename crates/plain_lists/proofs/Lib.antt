pub mod Orders
pub mod Booleans
pub mod Lists
pub mod Members
