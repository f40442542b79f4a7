pub mod Merging
pub mod Order
pub mod Queues
pub mod Sorted
pub mod Turns
pub mod Undone
