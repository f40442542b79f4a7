pub mod Packed
pub mod Costs
