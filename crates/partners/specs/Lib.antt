pub mod PartnersInner
pub mod PartnersLaws
pub mod ObservationsInner
pub mod ObservationsLaws
pub mod PartnerRowsInner
pub mod PartnerRowsLaws
