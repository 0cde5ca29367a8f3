pub mod Targets
pub mod Requests
pub mod Replies
pub mod OpenGet
pub mod Looks
pub mod Course
