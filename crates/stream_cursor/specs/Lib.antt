pub mod Cursors
pub mod Example
pub mod Moves
pub mod Steps
