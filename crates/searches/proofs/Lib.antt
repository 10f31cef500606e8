pub mod BlocksLaws
pub mod MeteringLaws
pub mod OrderLaws
pub mod RegisterLaws
