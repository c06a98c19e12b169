pub mod Given
pub mod JsonMentions
pub mod TomlTexts
pub mod TomlTables
pub mod TomlDocuments
pub mod FilterTexts
pub mod FewNames
