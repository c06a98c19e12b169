pub mod Samples
pub mod Selections
mod WorkedRuns
mod WorkedConnections
mod WorkedCommits
mod WorkedFlights
mod WorkedQueries
mod WorkedStreams
mod WorkedBatches
mod WorkedPollers
mod WorkedReaders
mod WorkedLines
pub mod WorkedMessages
mod WorkedScripts
