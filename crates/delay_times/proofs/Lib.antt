pub mod Growing
mod ViewsInTurn
