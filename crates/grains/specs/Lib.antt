pub mod Grains
pub mod GrainsInner
pub mod GrainsLaws
