pub mod Charge
pub mod Running
pub mod Node
pub mod Laws
