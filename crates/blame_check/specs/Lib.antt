pub mod Contradictions
pub mod Slots
pub mod Laws
