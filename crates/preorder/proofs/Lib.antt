-- Behind pre-ordering, lowest first: what one word more changes in the index of requests and acknowledgements, what it
-- certifies, the requests and acknowledgements that are due, and what saying them settles.
pub mod Choice
pub mod Steps
pub mod Quorums
pub mod Runs
pub mod Certified
pub mod Introductions
pub mod Ranges
pub mod Others
pub mod Turning
pub mod Settled
pub mod AcksInTurn
pub mod RequestsInTurn
pub mod SaidInTurn
pub mod Repeats
pub mod Holding
pub mod Settling
pub mod Beginning
pub mod Composed
pub mod Viewed
