pub mod Greatest
pub mod Falling
pub mod Loops
pub mod Latest
