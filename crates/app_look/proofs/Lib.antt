pub mod LinkBuses
pub mod Looking
pub mod Keys
pub mod Findings
pub mod Asks
pub mod SensorRecords
