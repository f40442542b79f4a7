pub mod About
