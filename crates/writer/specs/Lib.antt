pub mod Order
pub mod Rows
pub mod RowsInner
pub mod WriteCalls
pub mod RoundTrip
pub mod RunsInner
pub mod ContentsInner
