-- What the server's works do, and which works it starts. This project's own.
pub mod Ports
pub mod Works
pub mod Mains
pub mod Starting
