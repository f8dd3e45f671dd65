pub mod BlameText
pub mod BlameLaws
pub mod TrendText
pub mod TrendAnswers
pub mod TrendLaws
pub mod PartsText
pub mod PartsLaws
pub mod DelaysText
