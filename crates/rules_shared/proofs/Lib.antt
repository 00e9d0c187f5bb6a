pub mod EachLaws
pub mod RunLaws
pub mod ChooseLaws
pub mod Places
