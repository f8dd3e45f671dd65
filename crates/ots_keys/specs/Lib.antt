pub mod Parameters
pub mod Digits
pub mod Hash
pub mod Keys
