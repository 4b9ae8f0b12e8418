pub mod Case
pub mod Local
