-- Behind what an intruded master can be made to say, lowest first: walks over what it knows, quorums and certificates
-- found there, requests and plans made of them, and that the body made is the one that the word names.
pub mod Walks
pub mod Which
pub mod Voting
pub mod Certified
pub mod Giving
pub mod Gathering
pub mod Alike
pub mod Heard
pub mod Shortening
pub mod MarksKnown
pub mod Fits
pub mod Whole
pub mod Anyone
pub mod Learning
pub mod Spoken
