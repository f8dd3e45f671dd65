pub mod Said
pub mod Texts
pub mod Counting
pub mod Prefixes
pub mod Legal
