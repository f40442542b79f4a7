pub mod Cell
pub mod Lanes
pub mod Plane
pub mod Lines
pub mod Block
pub mod Sizes
