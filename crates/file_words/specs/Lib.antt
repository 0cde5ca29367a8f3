pub mod Escapes
pub mod Members
pub mod Near
pub mod Slips
