pub mod Few
pub mod Kept
pub mod RoleNames
pub mod Steps
pub mod Twice
