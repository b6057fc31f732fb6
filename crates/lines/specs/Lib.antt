-- The definitions that the contracts of this crate cite.
pub mod Kinds
pub mod Lines
pub mod Laws
