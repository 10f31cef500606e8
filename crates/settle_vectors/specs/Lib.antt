pub mod FitsInner
