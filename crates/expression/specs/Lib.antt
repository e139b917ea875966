pub mod Checking
pub mod Evaluation
pub mod Operators
pub mod Promises
pub mod Renaming
