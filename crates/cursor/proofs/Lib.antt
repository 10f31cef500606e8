pub mod ReadsLaws
pub mod SoundLaws
pub mod MarkedReadsLaws
pub mod ParsedLaws
pub mod StepsLaws
