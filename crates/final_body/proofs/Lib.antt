pub mod Over
pub mod Words
