pub mod Products
pub mod Steps
pub mod Paths
pub mod Past
