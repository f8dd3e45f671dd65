pub mod PackingLaws
pub mod TableLaws
