pub mod PartnersLaws
pub mod FilesLaws
mod FileCited
mod SheetCited
