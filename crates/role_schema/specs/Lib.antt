pub mod ColumnNames
pub mod GrantNumbers
pub mod LinkNames
pub mod Numbers
pub mod Sound
