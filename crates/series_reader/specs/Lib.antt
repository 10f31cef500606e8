pub mod RowsInner
pub mod ViewsInner
pub mod TurnsInner
