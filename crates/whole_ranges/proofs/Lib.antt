pub mod Listed
pub mod Jumps
