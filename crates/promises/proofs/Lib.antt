pub mod Runs
pub mod Made
pub mod Machine
pub mod Decks
pub mod Program
pub mod Kept
