pub mod Format
pub mod Words
pub mod Fields
pub mod Punched
pub mod Spelled
pub mod Walk
pub mod Small
