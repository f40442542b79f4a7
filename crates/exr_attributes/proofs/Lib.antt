pub mod Entries
pub mod Settled
pub mod Texts
pub mod Heads
pub mod Passes
pub mod Again
pub mod Takes
pub mod Laws
