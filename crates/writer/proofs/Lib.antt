mod Cited
pub mod CalledLaws
pub mod CaseFWrittenLaws
pub mod ContentsLaws
pub mod MarkedCalledLaws
pub mod OrderLaws
pub mod PlacedContentsLaws
pub mod PlacedInner
pub mod PlacedRowsLaws
pub mod PlacedRunsLaws
pub mod RoundTripLaws
pub mod RowsLaws
pub mod RunsLaws
pub mod SixesLaws
pub mod WriteCallsLaws
