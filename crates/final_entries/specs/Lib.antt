pub mod Lines
pub mod Turned
