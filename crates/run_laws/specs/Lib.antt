pub mod Laws
pub mod Takings
pub mod Admissions
pub mod Streams
