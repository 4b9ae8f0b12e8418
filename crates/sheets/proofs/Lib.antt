pub mod PartsStored
pub mod SheetPlaces
pub mod StreamLaws
pub mod TakingLaws
