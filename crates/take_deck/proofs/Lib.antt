pub mod Going
pub mod Round
