-- Lemmas that the answers cite.
mod Fronts
