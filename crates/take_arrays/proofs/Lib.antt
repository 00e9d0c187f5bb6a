pub mod Last
pub mod News
pub mod Judging
pub mod Cells
pub mod Declaring
