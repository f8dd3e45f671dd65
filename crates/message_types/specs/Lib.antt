pub mod Texts
pub mod Spelling
pub mod Digests
pub mod Parts
pub mod Kinds
