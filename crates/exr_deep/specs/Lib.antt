pub mod Body
pub mod Counts
pub mod Deep
pub mod Stored
pub mod Steps
