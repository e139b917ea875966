pub mod Acyclic
pub mod Bounds
mod Chain
pub mod Failing
pub mod Filling
pub mod Finding
pub mod Limits
pub mod Pinned
pub mod Placing
mod Rest
pub mod Tables
pub mod Through
