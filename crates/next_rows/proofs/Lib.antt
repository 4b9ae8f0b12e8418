pub mod RowLaws
pub mod NextWritten
pub mod RowsWritten
