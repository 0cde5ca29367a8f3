pub mod Starts
pub mod LanStarts
pub mod Numbered
pub mod LimitsOf
pub mod Written
pub mod KeptStagings
pub mod Apart
