pub mod One
pub mod Arrays
