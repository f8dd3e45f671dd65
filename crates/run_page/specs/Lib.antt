pub mod Lists
pub mod Words
pub mod Plant
pub mod Details
pub mod Page
