pub mod Sayings
pub mod MeasureState
