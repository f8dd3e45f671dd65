pub mod ListLength
