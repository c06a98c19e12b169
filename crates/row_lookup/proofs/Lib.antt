pub mod Ascents
pub mod Links
pub mod Narrowings
pub mod Steps
