pub mod Heights
pub mod Parts
pub mod KeyLaws
mod CandidatesLead
pub mod NodeLaws
pub mod Laws
