pub mod BootSteps
pub mod LanSteps
pub mod AttributeSteps
pub mod UserSteps
pub mod Changes
pub mod Steps
pub mod OnePlan
