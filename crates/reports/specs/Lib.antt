pub mod Rules
pub mod Told
