pub mod Filled
pub mod Spelled
pub mod Pens
pub mod Codes
