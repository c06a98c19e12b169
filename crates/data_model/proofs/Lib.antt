pub mod Found
pub mod Gives
pub mod Lists
pub mod Places
pub mod Fitting
pub mod Reasons
pub mod WorkedForm
