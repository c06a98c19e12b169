pub mod Example
pub mod Held
pub mod Seen
pub mod Stored
pub mod Taken
pub mod UniqueKeys
