pub mod RegisterReadings
pub mod RegisterForm
pub mod RegisterWriting
pub mod RegisterWritten
pub mod RegisterLength
pub mod RowsRise
pub mod Views
