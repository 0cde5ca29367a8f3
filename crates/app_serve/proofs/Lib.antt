pub mod ReadingsOnce
pub mod ReadingsLists
pub mod Serving
pub mod LaneTurns
pub mod Following
pub mod Closing
