pub mod MastersLemmas
pub mod Numbered
