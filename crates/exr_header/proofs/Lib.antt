pub mod Settled
pub mod Parts
pub mod Judged
pub mod Version
pub mod Spelled
pub mod Found
pub mod Rewritten
