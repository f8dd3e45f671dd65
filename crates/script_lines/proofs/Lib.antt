pub mod WordLaws
pub mod GivenLaws
