pub mod DecimalLaws
pub mod FixedLaws
pub mod TagLaws
pub mod WrittenLaws
