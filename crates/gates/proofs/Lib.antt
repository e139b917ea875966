pub mod Behaviour
pub mod Records
pub mod Works
