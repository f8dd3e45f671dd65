pub mod VouchingLaws
pub mod TallyLaws
