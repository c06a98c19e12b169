pub mod SearchSteps
pub mod TableSteps
pub mod TakenLaws
pub mod Examples
