pub mod Counted
pub mod Scripts
pub mod Trace
