pub mod Runs
pub mod Written
pub mod Events
pub mod Progress
pub mod Standing
pub mod Pieces
pub mod Words
