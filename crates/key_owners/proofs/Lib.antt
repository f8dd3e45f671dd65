pub mod OwnEntries
pub mod SameSignatures
pub mod Owners
