pub mod Point
pub mod Table
