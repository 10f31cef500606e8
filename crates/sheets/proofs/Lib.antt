pub mod PartiesLaws
pub mod PartsLaws
