mod Growing
pub mod Noting
mod Answering
mod Starting
