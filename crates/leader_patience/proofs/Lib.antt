-- Behind a master's patience: what a word known or bodies said change, and which votes are due.
pub mod Votes
pub mod Due
