pub mod Codes
pub mod Graph
pub mod Parts
pub mod Refusals
pub mod Scopes
pub mod Walks
