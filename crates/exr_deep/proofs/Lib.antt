pub mod Rows
pub mod Reading
pub mod Running
pub mod Writing
pub mod Fitting
pub mod Again
pub mod Chain
