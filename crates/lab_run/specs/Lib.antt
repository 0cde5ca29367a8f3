pub mod Marks
pub mod FramesShown
pub mod Shown
pub mod Makes
pub mod Hearing
pub mod Coming
pub mod Parts
pub mod Checked
