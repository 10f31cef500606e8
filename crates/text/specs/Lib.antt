pub mod Ascii
pub mod Tag
pub mod Decimal
pub mod WrittenInner
