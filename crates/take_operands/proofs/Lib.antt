pub mod Operands
pub mod Items
pub mod Emitting
