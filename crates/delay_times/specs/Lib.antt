pub mod Happenings
pub mod Sayings
pub mod Outcomes
pub mod Unexecuted
pub mod Spreads
pub mod Reigns
pub mod Table
pub mod Texts
