pub mod IdsLaws
pub mod InstantLaws
