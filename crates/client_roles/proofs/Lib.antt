pub mod Going
pub mod Answering
pub mod Saying
pub mod Counting
pub mod Wording
pub mod Signing
pub mod Polling
