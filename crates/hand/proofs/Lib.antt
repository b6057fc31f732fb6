pub mod Looks
pub mod Steps
pub mod Updates
