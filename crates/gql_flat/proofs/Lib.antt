pub mod CollectRules
pub mod FieldRules
pub mod GroupRules
pub mod WeightRules
pub mod WholeRules
