pub mod Ways
pub mod Widest
pub mod Said
