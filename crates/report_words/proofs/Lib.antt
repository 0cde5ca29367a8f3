pub mod Body
pub mod Packed
pub mod Wanted
pub mod Naming
pub mod Listing
pub mod Named
