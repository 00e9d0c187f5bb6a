pub mod Pools
pub mod Words
pub mod Entered
