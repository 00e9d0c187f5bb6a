pub mod Assembly
pub mod Counting
pub mod Keeping
pub mod Judging
pub mod Outcomes
pub mod Takes
