pub mod Codes
pub mod Windows
pub mod Rest
pub mod Decoding
pub mod Items
pub mod Tables
