pub mod Checked
pub mod Places
pub mod Uniqueness
pub mod Faultless
pub mod Whole
