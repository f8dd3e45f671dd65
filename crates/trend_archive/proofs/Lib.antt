pub mod RangeLaws
pub mod TrendLaws
pub mod BoardLaws
pub mod ShownLaws
