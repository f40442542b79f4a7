pub mod Columns
pub mod Counted
pub mod Listed
pub mod Matched
pub mod Rests
pub mod Standing
pub mod Stands
