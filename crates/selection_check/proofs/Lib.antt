pub mod Lists
pub mod Judged
pub mod Forms
pub mod Fields
