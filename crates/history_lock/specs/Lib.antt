-- Histories, passes and the rule of the lock, which are this project's own.
pub mod History
pub mod Views
pub mod Rule
pub mod Steps
pub mod Seats
pub mod PassViews
