pub mod Readings
pub mod Options
pub mod Endings
pub mod Behind
pub mod IdRanges
