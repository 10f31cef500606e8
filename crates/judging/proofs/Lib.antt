pub mod HeaderLaws
pub mod JudgedLaws
