pub mod Fault
pub mod Inverse
pub mod Near
pub mod Place
pub mod Plan
pub mod Validation
