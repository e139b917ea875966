pub mod Composed
pub mod Tables
