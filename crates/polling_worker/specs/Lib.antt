-- What a worker that polls does. This project's own.
pub mod Ticks
pub mod Works
pub mod Parts
