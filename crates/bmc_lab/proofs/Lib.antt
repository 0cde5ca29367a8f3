pub mod Told
mod Found
mod Hearing
mod Carried
mod Spelling
mod Telling
mod Parts
mod Answering
mod Turns
mod FindingLines
mod FindingNames
