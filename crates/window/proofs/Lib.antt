pub mod Walks
pub mod Onto
pub mod Stays
