pub mod TextLaws
pub mod TakeLaws
pub mod StatementLaws
pub mod Onward
