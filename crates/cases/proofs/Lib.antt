pub mod Computed
pub mod Passing
