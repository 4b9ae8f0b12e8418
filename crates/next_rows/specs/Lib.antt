pub mod ByTables
pub mod NextRow
pub mod Views
