-- Lemmas that the answers cite.
pub mod Cases
pub mod Texts
