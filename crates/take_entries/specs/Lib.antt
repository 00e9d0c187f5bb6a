pub mod Pooling
pub mod Places
