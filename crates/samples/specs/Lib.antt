pub mod Bytes
pub mod Listed
