mod Pieces
pub mod Places
mod Raw
pub mod Rows
mod Sheets
