pub mod Accepted
pub mod Record
pub mod Order
pub mod File
pub mod Waiting
pub mod Desk
