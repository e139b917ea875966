pub mod Expressions
pub mod Reading
pub mod Tables
