pub mod Hand
pub mod Steady
