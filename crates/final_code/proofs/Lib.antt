pub mod Likeness
pub mod Splitting
pub mod Aiming
pub mod Branching
pub mod Coding
pub mod Reaching
