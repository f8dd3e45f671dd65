pub mod Choosing
pub mod Index
pub mod Offered
pub mod Saying
pub mod Giving
pub mod Unsaid
pub mod OrderState
pub mod Held
