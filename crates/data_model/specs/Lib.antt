pub mod Cells
pub mod Form
pub mod JsonParts
pub mod Naming
pub mod Places
pub mod Rows
pub mod Transactions
pub mod Worked
