mod Failures
mod Written
