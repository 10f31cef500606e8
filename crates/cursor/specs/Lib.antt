pub mod ReadsInner
