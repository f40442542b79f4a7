pub mod Alike
pub mod Fits
pub mod Once
pub mod Passed
pub mod Places
