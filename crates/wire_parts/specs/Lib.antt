pub mod Fields
pub mod FieldLaws
pub mod View
pub mod ViewLaws
