-- What the meanings of renamed, hidden and joined drawings rest on: laws, proved of the definitions beside this folder.
pub mod Choices
pub mod Exchange
pub mod Faults
pub mod Outlines
