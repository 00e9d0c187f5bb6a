pub mod Uses
pub mod Moves
