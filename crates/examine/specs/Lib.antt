pub mod SheetForm
