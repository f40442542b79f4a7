pub mod BitLists
pub mod Logic
pub mod Multiples
pub mod RawSize
pub mod Sides
pub mod Written
