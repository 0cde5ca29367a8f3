pub mod Lines
pub mod Comes
pub mod FaultyWords
pub mod Lined
pub mod StageLines
