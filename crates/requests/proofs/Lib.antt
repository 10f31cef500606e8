pub mod LineLaws
pub mod MarkedLineLaws
pub mod MarkedPlacesLaws
