-- Behind an actor's entries: each role through one entry, and all of them as one; that the state after an entry is the
-- replay of the longer list; how actors begin; what a bench shows; what an
-- intruded master is made to say; the scenario's keys, leaves and charges, and to whom frames go.
pub mod Answering
pub mod MasterEntry
pub mod ClientEntry
pub mod FramesRead
pub mod IntrudedEntry
pub mod RoleEntry
pub mod SignedBodies
pub mod ReplayGrows
pub mod SeatEntry
pub mod HeldWorlds
pub mod HeldKeys
pub mod BenchAtFirst
pub mod BenchShows
pub mod SpokenWords
pub mod ScenarioRing
pub mod WordsSigned
mod Numbered
pub mod AuditAsks
pub mod HistoryReplays
mod EntriesByStamp
mod MergedBenches
pub mod LastEntry
pub mod KeptBytesReplay
pub mod KeeperInStep
pub mod KeptGrows
pub mod RestartReplays
pub mod KeptInStep
pub mod KeptAtFirst
pub mod TakenOut
pub mod ScenarioCharges
pub mod LeavesSuffice
pub mod StandingFrames
pub mod MasterSpeaks
pub mod Lists
pub mod Addressed
pub mod CallsThatFail
