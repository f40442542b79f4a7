pub mod Rested
pub mod Progress
pub mod Unpacking
pub mod Bounds
pub mod Joined
pub mod Held
pub mod ByFronts
