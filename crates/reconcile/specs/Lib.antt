pub mod Asking
pub mod AskState
pub mod Again
pub mod GiftState
pub mod Giving
pub mod Shares
pub mod Lacked
