pub mod Verifying
pub mod Groups
pub mod Levels
pub mod Signing
pub mod Entries
pub mod Heads
pub mod Standing
