pub mod Steps
pub mod Takes
