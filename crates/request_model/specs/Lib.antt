pub mod Strings
pub mod Lexemes
pub mod Grammar
pub mod Place
pub mod Selection
pub mod Canonical
pub mod SelectionLaws
