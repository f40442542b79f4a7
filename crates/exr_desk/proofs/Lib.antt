mod Orders
mod Chunks
mod Bytes
mod Places
mod Keeping
