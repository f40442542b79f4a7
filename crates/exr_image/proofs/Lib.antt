pub mod Places
pub mod Sums
pub mod Along
pub mod Cut
pub mod Fitting
pub mod Joined
