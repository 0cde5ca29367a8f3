pub mod ClaimingFacts
pub mod KeepingFacts
pub mod LookedAt
pub mod RevivingFacts
pub mod StandingFacts
