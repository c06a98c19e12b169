pub mod AddedRules
pub mod OrderRules
pub mod SessionRules
