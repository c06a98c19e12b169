pub mod Fronts
pub mod Cuts
pub mod Reading
pub mod Follow
pub mod Limit
