pub mod CodeNames
pub mod TableEntries
pub mod AttributeNames
pub mod SensorNames
pub mod TableNames
pub mod BoardNames
pub mod Changes
