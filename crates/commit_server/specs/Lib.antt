-- What serving the commit port does. This project's own.
pub mod Answers
pub mod Commits
pub mod Parts
