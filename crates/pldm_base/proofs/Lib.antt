pub mod Messages
pub mod InBytes
pub mod Tables
pub mod Bits
pub mod Register
