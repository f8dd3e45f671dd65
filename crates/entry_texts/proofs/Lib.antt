pub mod TextLaws
pub mod FieldReads
pub mod EventReads
pub mod KeptReads
