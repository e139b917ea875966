pub mod Ends
pub mod Evaluated
pub mod Here
pub mod Promises
pub mod Renamed
pub mod Steps
pub mod Worths
