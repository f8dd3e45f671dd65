pub mod Standing
mod Keeping
mod Telling
