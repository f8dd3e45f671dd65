pub mod Faults
pub mod Numbers
pub mod Names
pub mod Kinds
pub mod Frames
pub mod Lines
