-- Lemmas that the answers cite.
pub mod Again
pub mod Back
mod Inputs
pub mod Parts
