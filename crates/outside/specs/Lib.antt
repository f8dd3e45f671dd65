pub mod Faults
pub mod Keepers
pub mod Piece
pub mod Shelf
pub mod Tray
