-- The layout of the lent vector words.
pub mod Places
pub mod Prepared
pub mod Storing
pub mod Owns
