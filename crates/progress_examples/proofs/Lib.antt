pub mod ShortTurns
pub mod Live
pub mod Fair
pub mod Computing
pub mod NineRounds
pub mod ChangeOfView
pub mod VoteSplit
