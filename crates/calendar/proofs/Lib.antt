pub mod ClocksLaws
pub mod DatesLaws
