pub mod ByWord
pub mod ReadBack
pub mod HeaderLaws
