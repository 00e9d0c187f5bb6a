pub mod Cursors
pub mod Troubles
