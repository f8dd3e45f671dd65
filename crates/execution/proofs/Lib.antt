pub mod EligibleRequests
pub mod Progressing
pub mod Certificates
pub mod Beginning
