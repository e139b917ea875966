-- What the meaning of a gate list rests on: laws, proved of the definitions beside this folder.
pub mod Choices
pub mod Kept
pub mod Outlines
pub mod Parts
pub mod WellFormed
