pub mod HeaderInner
