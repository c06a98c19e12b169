-- What serving a connection does, between its link and the engine. This project's own.
pub mod Talks
pub mod Steps
pub mod Sessions
pub mod Parts
