pub mod SheetLaws
pub mod FileCallLaws
pub mod LayingInner
pub mod LayingLaws
pub mod NeverThree
pub mod NeverThreeLaws
