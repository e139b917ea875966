pub mod Enumerations
pub mod Members
pub mod Runs
pub mod Statements
