pub mod Answered
pub mod Broken
pub mod Due
pub mod Granting
pub mod Left
pub mod Lines
pub mod Pieces
