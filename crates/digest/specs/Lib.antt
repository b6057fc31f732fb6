-- The definitions that the contracts of this crate cite.
pub mod Hmac
pub mod Sha256
