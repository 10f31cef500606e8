pub mod RolesLaws
pub mod DirectionsLaws
pub mod NextLaws
pub mod PlacedLaws
