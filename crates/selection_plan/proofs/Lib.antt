pub mod Distinct
pub mod Gathering
pub mod FilterForms
pub mod Tables
pub mod PlanForms
