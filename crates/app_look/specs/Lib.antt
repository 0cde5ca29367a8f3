pub mod Driven
pub mod Opened
pub mod Looking
pub mod Findings
pub mod Asking
pub mod SensorRecords
pub mod AttributeTables
pub mod Reading
