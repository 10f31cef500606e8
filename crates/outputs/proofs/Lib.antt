pub mod CutLaws
pub mod OutputLaws
