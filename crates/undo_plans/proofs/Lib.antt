pub mod FirstRequest
pub mod Keeping
pub mod Lying
pub mod Marked
pub mod ShortData
