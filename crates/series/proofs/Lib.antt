pub mod SameLaws
pub mod DeliveredLaws
pub mod PartsLaws
