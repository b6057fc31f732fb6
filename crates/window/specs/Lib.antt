pub mod Ring
pub mod View
pub mod Steps
pub mod Stands
