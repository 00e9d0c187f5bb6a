pub mod Maps
pub mod Names
