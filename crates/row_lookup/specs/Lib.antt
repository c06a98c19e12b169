pub mod Ascending
pub mod Chaining
pub mod Comparing
pub mod Finding
pub mod Narrowing
