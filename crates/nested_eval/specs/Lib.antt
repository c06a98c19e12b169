pub mod Example
pub mod Nodes
pub mod Pins
pub mod Plans
pub mod Seen
pub mod Sources
