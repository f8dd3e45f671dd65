mod Places
pub mod AtHand
mod FramesFound
pub mod EventTold
pub mod NextEntry
mod FirstAtHand
mod Lines
mod LastFrames
mod KindsTold
mod TakenNext
mod LastSaid
