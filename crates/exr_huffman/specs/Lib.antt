pub mod Tokens
pub mod Blocks
pub mod Joined
pub mod Nexts
pub mod Parts
pub mod Fronts
pub mod Reading
