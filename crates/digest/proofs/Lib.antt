-- Lemmas that the answers cite.
mod Blocks
mod Chunks
mod Differing
mod Extending
mod Mapped
mod Masks
mod Rounds
mod Standing
mod Sums
mod Writes
