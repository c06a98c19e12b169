-- What the engine's calls add to the history of its passes.
pub mod Calls
pub mod Events
pub mod Others
pub mod Jobs
pub mod Faults
pub mod Polls
