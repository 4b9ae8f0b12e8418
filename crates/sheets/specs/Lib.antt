pub mod SheetLength
pub mod LengthLaws
pub mod SheetMembers
pub mod SheetReadings
pub mod SheetSizes
pub mod SheetWritten
pub mod Taking
pub mod Views
