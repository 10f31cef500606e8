pub mod ExactlyLaws
pub mod PlaceLaws
pub mod BindLaws
pub mod ItemsLaws
pub mod RunLaws
pub mod MarksLaws
