pub mod Planning
pub mod ViewState
