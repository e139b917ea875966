pub mod Calls
pub mod Claims
pub mod Invariants
pub mod Listing
pub mod Phases
pub mod Promises
pub mod States
pub mod Truths
