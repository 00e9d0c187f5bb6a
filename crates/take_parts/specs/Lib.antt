pub mod Steps
pub mod Fresh
