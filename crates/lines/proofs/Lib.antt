-- Lemmas that the answers cite.
mod Again
mod Back
mod Lines
mod Records
pub mod Runs
