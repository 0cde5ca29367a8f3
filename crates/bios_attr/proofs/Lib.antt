pub mod BodyFacts
pub mod Contents
pub mod Pieces
