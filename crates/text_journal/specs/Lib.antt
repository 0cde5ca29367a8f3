pub mod StageWords
pub mod JournalLines
pub mod JournalSteps
pub mod JournalText
pub mod Written
pub mod FaultNames
