pub mod Steps
pub mod BoardSteps
pub mod Telling
pub mod LookedAt
pub mod OneMore
pub mod KeptSteps
pub mod Looked
pub mod Kept
