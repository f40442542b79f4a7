pub mod Placing
pub mod Levels
pub mod Inverse
pub mod LevelLaws
pub mod Waves
pub mod Worked
pub mod Room
pub mod TwoLines
