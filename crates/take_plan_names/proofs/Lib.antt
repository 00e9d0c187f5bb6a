pub mod Operands
pub mod Takes
