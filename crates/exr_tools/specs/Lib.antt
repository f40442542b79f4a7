pub mod Output
pub mod Run
pub mod Scene
pub mod Stops
pub mod Texts
