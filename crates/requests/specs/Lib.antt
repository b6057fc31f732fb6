pub mod Request
pub mod Book
