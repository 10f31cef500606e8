pub mod Line
pub mod LineInner
