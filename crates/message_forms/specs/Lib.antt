pub mod Batch
pub mod Grammar
pub mod Forms
pub mod Gives
pub mod Widths
