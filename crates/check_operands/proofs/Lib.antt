pub mod Tables
pub mod Exits
pub mod Tests
