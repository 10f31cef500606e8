pub mod EngagementsLaws
pub mod RegisterLaws
pub mod SectionsLaws
