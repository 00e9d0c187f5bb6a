pub mod Find
pub mod Lookups
pub mod Appears
