pub mod Choices
pub mod Demand
