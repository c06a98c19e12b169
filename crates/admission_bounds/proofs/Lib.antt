pub mod DistinctLists
pub mod VariableLexemes
pub mod DeclaredValues
pub mod DeclaredConditions
pub mod DeclaredArguments
pub mod DeclaredFields
pub mod FewVariables
pub mod FewSlots
