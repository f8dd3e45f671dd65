pub mod Past
pub mod Whole
pub mod Knows
pub mod Certifying
pub mod Numbers
