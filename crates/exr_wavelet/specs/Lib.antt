pub mod Pair
pub mod Level
pub mod Wave
pub mod Places
