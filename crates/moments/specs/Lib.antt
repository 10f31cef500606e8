pub mod Moments
pub mod MomentsInner
pub mod MomentsLaws
pub mod Ids
