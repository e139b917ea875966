pub mod Cases
pub mod Statements
