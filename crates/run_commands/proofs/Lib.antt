mod MadePieces
mod KeyLines
pub mod Scenarios
pub mod Openings
pub mod Scripting
pub mod Playing
pub mod Posing
pub mod Threading
pub mod Merging
pub mod Certain
pub mod Weaker
pub mod Headlines
pub mod RunsThere
pub mod Answered
pub mod Keeping
