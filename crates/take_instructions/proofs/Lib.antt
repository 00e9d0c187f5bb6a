pub mod Fits
pub mod Both
pub mod One
pub mod Ends
