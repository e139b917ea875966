pub mod Atoms
pub mod Facts
pub mod Forms
pub mod Meanings
pub mod Plain
