pub mod Limits
pub mod House
pub mod Refusals
pub mod Lists
pub mod Output
pub mod Runs
pub mod Choose
