pub mod Lines
pub mod LineLaws
pub mod AlikeLaws
pub mod RunLaws
pub mod PlayLaws
