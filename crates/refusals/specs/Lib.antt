pub mod Refusals
pub mod Sent
pub mod RefusalsLaws
pub mod Buffers
pub mod BuffersLaws
pub mod SentInner
