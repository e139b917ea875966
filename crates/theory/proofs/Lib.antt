pub mod Enumerations
pub mod Evidence
pub mod Members
pub mod Runs
