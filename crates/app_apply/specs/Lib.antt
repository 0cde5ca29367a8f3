pub mod Driven
pub mod Kept
pub mod Strict
pub mod Statuses
pub mod Guard
pub mod Apply
pub mod Ends
