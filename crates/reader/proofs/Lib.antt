mod Cited
pub mod RootLaws
pub mod PartnersLaws
pub mod PlacesLaws
pub mod PartsLaws
pub mod FactsLaws
pub mod MarkedPartnersInner
pub mod MarkedPartnerLaws
pub mod MarkedPartnersLaws
pub mod MarkedPartnersFillingLaws
pub mod MarkedFileInner
pub mod MarkedFileLaws
pub mod MarkedPlacesLaws
pub mod MarkedJudgedLaws
pub mod MarkedFactsLaws
pub mod MarkedPassagesLaws
pub mod MarkedFilledLaws
