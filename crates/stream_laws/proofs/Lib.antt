mod SortedRows
mod StreamOrder
mod StreamPieces
mod StreamTables
mod SettledTables
mod StreamGrowth
pub mod StreamsOnce
pub mod StreamResults
