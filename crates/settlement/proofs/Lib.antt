mod Cited
pub mod CallsLaws
pub mod PartWritesLaws
pub mod SectionsLaws
pub mod SettlingLaws
