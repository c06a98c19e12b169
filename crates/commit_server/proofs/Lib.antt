pub mod Lines
pub mod Writing
pub mod Answering
pub mod Feeding
pub mod Serving
