pub mod Nodes
pub mod PublicKeys
pub mod Trees
pub mod Built
