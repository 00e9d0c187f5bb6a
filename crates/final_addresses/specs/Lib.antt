pub mod Given
pub mod Ends
pub mod Proposition
