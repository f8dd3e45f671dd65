-- Behind all that a master says at an event: what its parts go by as it grows, each part's words among all that is
-- said, their order in one list, and what is said for orders and clients, number by number.
pub mod Growing
pub mod Few
pub mod Alike
pub mod Requests
pub mod Orders
pub mod Counting
pub mod Joining
pub mod Splitting
pub mod Asking
pub mod Reporting
pub mod Speaking
pub mod SpeakingAlive
pub mod Waited
pub mod Answered
pub mod Counted
pub mod Caught
pub mod Ordered
pub mod Vouched
pub mod Gifting
pub mod Lacked
