pub mod Items
pub mod Used
