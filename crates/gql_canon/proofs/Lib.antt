pub mod OrderRules
