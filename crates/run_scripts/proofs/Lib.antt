-- Behind a play of a script, lowest first: its lists and slots, what each entry of a play keeps and so the whole play,
-- what each kind of line does to a play at work, that what is played is the history that script and words define; then,
-- by the names with Unforged, that without raw words nothing in it is forged.
pub mod Lists
pub mod DoneAndLeft
pub mod SlotsKept
pub mod KindsAreFew
pub mod SoundStays
pub mod EventAdds
pub mod UnforgedPosts
pub mod PlayKeeps
pub mod PlaysAreLegal
pub mod PlaySteps
pub mod DueStays
pub mod MailGrows
pub mod CryAdds
pub mod EventPlayed
pub mod FramesHeld
pub mod PostsMade
pub mod WordSaid
pub mod FrameTaken
pub mod LostActors
pub mod PlayBegins
pub mod LinesPlayed
pub mod UnforgedFields
pub mod UnforgedKnown
pub mod UnforgedWords
pub mod UnforgedParts
pub mod UnforgedSaid
pub mod UnforgedCries
pub mod UnforgedPlay
