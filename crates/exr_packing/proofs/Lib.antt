pub mod Weighing
pub mod Runs
pub mod Restored
