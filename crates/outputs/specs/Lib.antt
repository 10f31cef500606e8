pub mod Output
pub mod OutputInner
