pub mod Arrays
pub mod Listing
pub mod Lists
