pub mod CardLaws
pub mod DeckLaws
