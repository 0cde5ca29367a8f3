pub mod Statuses
pub mod Revert
pub mod Looks
pub mod Names
pub mod Sentences
