-- Behind the global order, lowest first: what one word more changes in votes, offers and the least numbers, then
-- ranges of numbers in which words are due, whole runs, and what is certified, learned and said.
pub mod Booleans
pub mod Given
pub mod Meeting
pub mod Voting
pub mod Steps
pub mod Least
pub mod Settling
pub mod Runs
pub mod Ranges
pub mod Answering
pub mod Marking
pub mod Alike
pub mod Taking
pub mod Highest
pub mod Viewing
pub mod Saying
pub mod Touching
pub mod Handed
pub mod Waits
pub mod Beginning
pub mod Certifying
pub mod Learning
