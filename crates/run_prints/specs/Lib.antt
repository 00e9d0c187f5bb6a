pub mod Steps
pub mod Puts
pub mod Lines
