pub mod Builders
pub mod CommandLine
pub mod Numbers
pub mod Readings
