pub mod Sizes
pub mod Lists
pub mod Bodies
pub mod Reading
pub mod Opens
pub mod Entries
pub mod OneLayout
