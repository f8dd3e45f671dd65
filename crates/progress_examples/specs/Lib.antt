pub mod NineRounds
pub mod ChangeOfView
pub mod VoteSplit
pub mod Examples
