pub mod Codes
pub mod SmallInner
pub mod FactsInner
pub mod FileSizeInner
pub mod FileSizeLaws
