pub mod Identities
pub mod Maps
pub mod Reading
