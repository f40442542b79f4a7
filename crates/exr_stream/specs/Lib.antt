pub mod Chunk
pub mod Stream
