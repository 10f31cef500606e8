pub mod Numbers
pub mod NumbersLaws
pub mod Readings
pub mod ReadingsInner
pub mod ReadingsLaws
