pub mod Counted
pub mod Stored
