mod PlainEvents
mod PlainLists
mod PlainWords
mod Same
pub mod Alone
pub mod Counted
pub mod NextKept
pub mod Joined
