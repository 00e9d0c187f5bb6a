pub mod Counts
pub mod Parts
pub mod Names
pub mod Draft
pub mod Kept
pub mod Sketch
pub mod KeptDeck
