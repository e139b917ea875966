pub mod AwaitSets
pub mod Awaits
pub mod Factors
pub mod Orders
pub mod Search
pub mod Witnesses
