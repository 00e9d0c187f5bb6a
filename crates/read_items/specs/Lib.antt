pub mod Items
pub mod Parsed
