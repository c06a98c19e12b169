pub mod Examples
pub mod Moved
