pub mod Firsts
pub mod Words
pub mod Says
