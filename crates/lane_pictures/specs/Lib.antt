pub mod Sheets
pub mod Drawing
