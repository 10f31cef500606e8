pub mod PeriodLaws
pub mod WordLaws
