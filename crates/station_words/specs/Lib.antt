pub mod CommandLine
pub mod Wanted
