pub mod PointLaws
pub mod TableLaws
