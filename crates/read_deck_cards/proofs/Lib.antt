pub mod CardByCard
pub mod JudgeLaws
