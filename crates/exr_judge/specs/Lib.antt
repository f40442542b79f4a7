pub mod Channels
pub mod Fields
pub mod Judging
pub mod Kind
pub mod Name
pub mod Next
pub mod Picture
pub mod Words
