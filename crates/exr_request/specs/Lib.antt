pub mod Answer
pub mod Arranged
pub mod Chosen
pub mod Demand
pub mod Fault
pub mod Request
