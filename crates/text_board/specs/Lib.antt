pub mod Names
pub mod LanItems
pub mod Faults
pub mod Items
pub mod AttributeItems
pub mod Holds
mod HoldsItems
