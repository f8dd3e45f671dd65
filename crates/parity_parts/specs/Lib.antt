pub mod Field
pub mod Interpolation
pub mod Parts
pub mod Rebuilding
