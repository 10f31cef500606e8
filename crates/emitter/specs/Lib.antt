pub mod SinksInner
pub mod MeasuredInner
pub mod WrittenInner
pub mod PartsInner
