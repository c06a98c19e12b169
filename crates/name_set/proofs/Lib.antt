pub mod NameRules
pub mod Positions
mod RepeatRules
