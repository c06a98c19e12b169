pub mod Replying
pub mod Folds
pub mod Talking
pub mod Composing
pub mod Draining
pub mod Receiving
pub mod Running
