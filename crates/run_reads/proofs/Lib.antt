pub mod FieldLaws
pub mod CardLaws
pub mod CopyLaws
pub mod CardsLaws
pub mod ReadingLaws
