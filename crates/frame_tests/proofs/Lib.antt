pub mod MadeHeights
