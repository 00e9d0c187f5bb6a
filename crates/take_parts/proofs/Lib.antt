pub mod Filling
pub mod Dos
pub mod HiddenCells
pub mod Marking
