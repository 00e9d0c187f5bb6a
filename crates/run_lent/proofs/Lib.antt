pub mod Lent
pub mod Index
