pub mod NumberLaws
pub mod NameLaws
pub mod FaultLaws
pub mod LineLaws
pub mod Worded
pub mod NamedParts
