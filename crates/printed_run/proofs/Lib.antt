pub mod BenchesMakeText
pub mod FramesOfEntries
pub mod SaidThere
pub mod WhatIsAtHand
pub mod ShownLines
pub mod WholeText
pub mod LookedAt
