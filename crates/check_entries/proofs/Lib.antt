pub mod Says
pub mod Firsts
pub mod Tables
