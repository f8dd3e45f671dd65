pub mod LeadLaws
pub mod Children
pub mod Descending
pub mod KeyLaws
