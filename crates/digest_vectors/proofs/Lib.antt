-- Lemmas that the answers cite.
mod Pushes
