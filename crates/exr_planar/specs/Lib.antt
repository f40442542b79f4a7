pub mod Moving
pub mod Planar
