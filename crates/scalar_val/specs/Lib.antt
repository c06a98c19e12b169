pub mod formers
pub mod Joined
pub mod Ordered
pub mod Spellings
pub mod ValOrder
pub mod Values
pub mod ValText
