pub mod FieldLaws
pub mod LineLaws
pub mod LinesLaws
pub mod PaperLaws
pub mod WritingLaws
