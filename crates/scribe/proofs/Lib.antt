-- Lemmas that the answers cite.
mod Putting
