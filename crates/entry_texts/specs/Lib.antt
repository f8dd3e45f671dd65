pub mod Texts
pub mod Fits
pub mod KeptEntries
pub mod Reads
