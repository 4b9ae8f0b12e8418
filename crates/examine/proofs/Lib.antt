pub mod RecordsBy
pub mod SetsBy
pub mod SheetBy
pub mod SheetTests
