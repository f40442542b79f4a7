pub mod Even
pub mod Grid
pub mod Joined
pub mod Moves
pub mod Orders
