pub mod CodesLaws
pub mod SmallLaws
pub mod ToldLaws
