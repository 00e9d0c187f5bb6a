pub mod Places
pub mod Loops
pub mod Answers
