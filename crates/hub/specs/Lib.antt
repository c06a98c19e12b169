pub mod Seen
pub mod Parts
pub mod Telling
pub mod Messages
pub mod Taking
pub mod NoMetadata
pub mod DataCodes
pub mod Readings
