pub mod Layout
pub mod Opened
pub mod Bodies
pub mod Proposition
pub mod Book
