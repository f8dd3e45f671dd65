pub mod FieldLaws
pub mod Polynomials
pub mod Columns
pub mod Joins
pub mod Searching
pub mod Sublists
pub mod Finding
pub mod Wrongs
