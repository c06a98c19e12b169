pub mod GraphRules
pub mod PartRules
pub mod PlaceRules
pub mod ReachRules
pub mod TruthRules
