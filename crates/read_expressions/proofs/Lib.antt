pub mod Going
pub mod Starts
