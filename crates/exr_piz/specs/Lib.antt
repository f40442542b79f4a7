pub mod Values
pub mod Words
pub mod Marks
pub mod Planes
pub mod Turns
pub mod Stored
pub mod Cut
pub mod Piz
