pub mod Limits
pub mod Which
