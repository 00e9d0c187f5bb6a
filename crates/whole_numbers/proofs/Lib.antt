pub mod Tests
pub mod Ends
pub mod Own
pub mod Starts
pub mod Resolving
