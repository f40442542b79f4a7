pub mod Token
pub mod Unpacked
pub mod Packed
pub mod Lanes
