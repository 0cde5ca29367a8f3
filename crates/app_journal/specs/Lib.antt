pub mod Beside
pub mod Keeping
pub mod Reviving
pub mod Standing
pub mod Claiming
