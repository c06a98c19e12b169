pub mod Appends
pub mod ByType
pub mod Others
