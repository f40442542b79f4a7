pub mod Entry
pub mod Fault
pub mod Number
pub mod Pass
pub mod Reading
pub mod Spelling
