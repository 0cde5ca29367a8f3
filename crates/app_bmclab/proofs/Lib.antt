pub mod Readings
pub mod Checks
pub mod Forms
pub mod NamedPlaces
mod OnBoard
