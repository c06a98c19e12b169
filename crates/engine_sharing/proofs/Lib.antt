pub mod Metadata
pub mod Plans
pub mod Subscriptions
pub mod Hubs
pub mod Sharing
