pub mod Listing
pub mod Entering
pub mod Naming
