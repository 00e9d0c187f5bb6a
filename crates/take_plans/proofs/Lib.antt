pub mod ByKind
pub mod Room
pub mod Forms
