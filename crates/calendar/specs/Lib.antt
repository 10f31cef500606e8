pub mod Clocks
pub mod Dates
pub mod DatesInner
