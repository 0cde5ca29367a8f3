pub mod StepKind
pub mod PlanNames
pub mod Kinds
pub mod PlanFaults
pub mod PlanHolds
