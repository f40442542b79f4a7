pub mod Pixel
pub mod Bytes
pub mod Image
pub mod Pieces
