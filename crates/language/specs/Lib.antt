pub mod Expressions
pub mod Fronts
pub mod Meanings
pub mod Rules
pub mod Statements
pub mod Tables
pub mod laws
