pub mod Bare
pub mod Entries
pub mod Filled
pub mod Forms
pub mod Shapes
pub mod Whole
