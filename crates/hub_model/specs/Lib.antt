pub mod Kept
pub mod Jobs
pub mod Stands
pub mod Steps
pub mod Tellings
pub mod Replies
