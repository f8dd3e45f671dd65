pub mod Widths
pub mod Growing
pub mod Laws
mod StepLaws
mod TogetherLaws
