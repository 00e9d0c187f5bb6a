pub mod Ends
pub mod Told
pub mod Lasts
pub mod DeckEnds
pub mod Passing
pub mod Holding
