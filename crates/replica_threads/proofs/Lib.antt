mod Numbers
mod Seats
mod Passes
pub mod Lengths
pub mod Fitting
mod Given
mod Ends
mod Threads
mod ActorsCross
mod Lists
mod HandPasses
mod Sending
mod Quiet
mod TurnsSent
mod Frames
mod TakenByHands
mod Turning
mod Counted
mod Taken
mod Joining
mod Runs
