-- What a sheet owns and lends, what it lends as a run, and which bytes are a rectangle's.
pub mod Ownership
pub mod Marks
pub mod Lending
pub mod Rects
