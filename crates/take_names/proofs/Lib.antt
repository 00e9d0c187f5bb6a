pub mod Takes
pub mod Growing
