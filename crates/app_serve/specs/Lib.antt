pub mod ReadingsLine
pub mod ReadingsText
pub mod ReadingsNames
pub mod Turns
pub mod Served
pub mod Periods
pub mod Run
