pub mod CaseInner
