pub mod Elements
pub mod Lists
