mod RotationByShifts
mod MajorityInFewer
mod LanesOneByOne
mod RoundsOneByOne
mod StepsInOneBlock
pub mod ChainsGrow
pub mod HashLengths
pub mod ValuesJoined
mod BytesAsWords
mod LanesOfChains
mod ChainsInAnyOrder
mod PairsOfValues
mod ThreeKeys
