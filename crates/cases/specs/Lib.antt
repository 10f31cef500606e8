pub mod WordsInner
pub mod SparseInner
