pub mod Quarters
pub mod QuartersInner
