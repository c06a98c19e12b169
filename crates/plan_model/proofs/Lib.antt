pub mod FilterRules
pub mod PlanRules
pub mod Truths
pub mod TruthRows
pub mod Fitting
pub mod Readiness
pub mod PlannedParts
