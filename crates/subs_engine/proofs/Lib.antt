pub mod Owns
pub mod Made
pub mod Jobs
pub mod Engines
pub mod Polling
