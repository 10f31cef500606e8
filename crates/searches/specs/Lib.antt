pub mod MeteringInner
pub mod RegisterInner
