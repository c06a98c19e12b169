pub mod JsonFilters
pub mod MetadataFaults
pub mod MetadataForm
pub mod MetadataMeaning
pub mod MetadataNames
pub mod Roles
pub mod Sessions
pub mod Texts
