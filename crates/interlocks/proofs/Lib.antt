pub mod NumberLaws
pub mod ReaderLaws
pub mod ScanLaws
