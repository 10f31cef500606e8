pub mod Numbers
pub mod NumbersLaws
pub mod NumbersInner
