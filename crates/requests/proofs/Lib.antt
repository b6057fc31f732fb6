pub mod Firsts
pub mod Reach
pub mod Known
pub mod Closing
