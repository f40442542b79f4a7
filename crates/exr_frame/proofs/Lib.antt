pub mod Channelled
pub mod Found
pub mod Gathered
pub mod Growing
pub mod Lined
pub mod Putting
pub mod Rowed
pub mod Strips
