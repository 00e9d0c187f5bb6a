pub mod Planned
pub mod Judged
