pub mod Count
pub mod Source
pub mod Sink
pub mod Files
pub mod Fakes
pub mod Transfer
pub mod Shelf
