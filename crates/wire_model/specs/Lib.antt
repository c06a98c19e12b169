pub mod ClientMessages
pub mod ServerMessages
pub mod CloseReasons
pub mod Steps
pub mod Generated
