pub mod PartnersInner
pub mod FileInner
