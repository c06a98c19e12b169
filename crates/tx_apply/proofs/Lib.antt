pub mod Lists
pub mod Changes
pub mod InOrder
pub mod Places
