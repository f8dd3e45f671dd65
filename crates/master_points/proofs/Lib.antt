pub mod ListLaws
pub mod EffectLaws
pub mod OrderLaws
