pub mod Rounds
pub mod Laws
pub mod UnderLeader
pub mod Leaving
pub mod Serving
pub mod Keeping
pub mod Asking
pub mod Marking
