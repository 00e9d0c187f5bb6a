pub mod Emits
pub mod Emitting
