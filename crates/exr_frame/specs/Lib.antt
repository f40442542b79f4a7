pub mod Buffer
pub mod Gather
pub mod Rows
