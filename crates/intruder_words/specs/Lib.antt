pub mod Naming
pub mod Numbering
pub mod Telling
pub mod Marking
pub mod Certifying
pub mod Speaking
pub mod Overheard
