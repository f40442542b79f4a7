pub mod Banded
pub mod Contents
pub mod Deepening
pub mod Filling
pub mod InRounds
pub mod Meeting
pub mod Same
pub mod Soundness
