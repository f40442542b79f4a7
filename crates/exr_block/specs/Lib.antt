pub mod Body
pub mod Content
pub mod Fault
pub mod Sizes
