pub mod Told
pub mod Known
pub mod Own
