pub mod WorkedMessages
pub mod WorkedCloses
pub mod WorkedScripts
pub mod Cut
