pub mod Line
pub mod Ids
pub mod Asked
pub mod Run
