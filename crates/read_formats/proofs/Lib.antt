pub mod PutLaws
pub mod NumberLaws
pub mod StepLaws
pub mod ListLaws
pub mod FormatLaws
