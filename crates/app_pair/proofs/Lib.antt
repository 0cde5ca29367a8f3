pub mod Telling
pub mod Counting
