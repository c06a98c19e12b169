pub mod ListRules
pub mod PlaceRules
