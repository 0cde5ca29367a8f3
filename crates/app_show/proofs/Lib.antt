pub mod Plans
pub mod Pushed
pub mod AskedFor
pub mod Told
pub mod Files
pub mod Shown
