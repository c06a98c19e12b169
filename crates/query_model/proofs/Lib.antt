pub mod Positions
pub mod QueryRules
mod Samples
mod ResultRows
mod AdmissionRows
mod UsualClient
mod PlanRows
mod VariableRows
mod StreamRows
mod OperandRows
mod ConditionRows
mod RowRows
mod RefusalRows
mod AcceptanceRows
