pub mod RegisterBy
pub mod RowsStored
