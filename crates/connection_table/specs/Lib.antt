pub mod Connected
pub mod Seen
