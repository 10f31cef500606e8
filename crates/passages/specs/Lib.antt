pub mod ViewsInner
pub mod MonthLaws
