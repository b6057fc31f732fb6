-- The definitions that the contracts of this crate cite.
pub mod Refusals
pub mod Numbers
pub mod Fronts
pub mod Kinds
pub mod Inputs
pub mod Laws
