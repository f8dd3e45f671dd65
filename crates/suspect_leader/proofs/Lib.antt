-- Behind the measures of leaders: ranks and rising orders, the sets of sayings that are kept as lists, what a word
-- known or said changes in them, and what is owed and due then.
pub mod Ranks
pub mod Order
pub mod Sets
pub mod Told
pub mod Words
pub mod Taken
pub mod Masters
pub mod Start
pub mod Rising
pub mod Owed
pub mod Due
pub mod Places
pub mod Early
