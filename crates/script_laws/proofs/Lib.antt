pub mod OneMeaning
pub mod SomeMeaning
pub mod SameOutcome
pub mod SomeOutcome
mod Worked
