pub mod Verification
pub mod Signatures
pub mod State
pub mod Descent
pub mod Path
pub mod KeyInside
