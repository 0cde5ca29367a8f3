pub mod Looks
pub mod Known
pub mod Unfit
pub mod Outcomes
pub mod BadLines
pub mod Telling
pub mod Staged
pub mod Worded
