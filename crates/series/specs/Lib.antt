pub mod VolumesInner
pub mod VolumesLaws
pub mod SumsInner
pub mod SumsLaws
