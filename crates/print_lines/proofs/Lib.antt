pub mod Going
pub mod ValueLaws
pub mod Loops
