pub mod Lists
pub mod Polling
pub mod Beginning
pub mod Working
