pub mod Accepted
pub mod Calls
pub mod Judged
pub mod Marking
pub mod Ordering
pub mod Reading
pub mod Sealing
pub mod Steps
