pub mod PutLaws
pub mod NumberLaws
