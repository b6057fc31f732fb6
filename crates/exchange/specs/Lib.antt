pub mod State
pub mod Steps
pub mod Stands
pub mod Calls
pub mod Events
