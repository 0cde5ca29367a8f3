-- The records of sensors.
pub mod Thresholds
pub mod Hysteresis
pub mod EventEnable
