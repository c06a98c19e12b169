pub mod Histories
pub mod Homes
pub mod Keeps
pub mod Seen
pub mod PassViews
