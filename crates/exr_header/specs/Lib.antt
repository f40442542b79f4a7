pub mod Head
pub mod Settled
pub mod Show
pub mod Spells
