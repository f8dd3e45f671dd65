pub mod Files
pub mod Told
pub mod Order
pub mod Early
pub mod Joins
pub mod Amid
pub mod Laws
