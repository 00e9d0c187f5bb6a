pub mod Guards
pub mod Seen
