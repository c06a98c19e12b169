pub mod FaultRules
pub mod FirstFault
pub mod SelectionRules
mod SelectionRows
mod CollectionRows
mod LimitRows
pub mod ReadNames
pub mod ReadLists
pub mod ReadAtoms
pub mod ReadValues
pub mod ReadParts
pub mod ReadArguments
pub mod ReadFields
pub mod TextsOfEssences
pub mod WrittenLexemes
pub mod WrittenDocuments
pub mod WrittenFlats
pub mod Worked
