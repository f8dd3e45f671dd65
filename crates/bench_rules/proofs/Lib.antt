pub mod HeardEvents
pub mod FramesStand
