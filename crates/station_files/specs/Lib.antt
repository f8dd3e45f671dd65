pub mod WholeLines
pub mod Held
pub mod Sheet
pub mod Input
pub mod Batch
