pub mod WordsLaws
pub mod SparseLaws
