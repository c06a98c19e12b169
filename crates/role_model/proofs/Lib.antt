pub mod StrMaps
pub mod MetadataRows
