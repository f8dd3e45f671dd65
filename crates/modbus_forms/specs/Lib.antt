pub mod Frame
pub mod Requests
pub mod Replies
pub mod Widths
pub mod Answered
