pub mod Counts
pub mod Indices
pub mod Judging
