pub mod Turns
pub mod Frames
pub mod Plots
pub mod Charts
