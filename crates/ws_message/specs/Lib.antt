pub mod Forms
pub mod Meant
