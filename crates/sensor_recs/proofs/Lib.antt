pub mod EventsMade
pub mod TakenFacts
