pub mod Scene
pub mod Plays
pub mod Player
