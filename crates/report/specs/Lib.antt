pub mod Report
pub mod Text
pub mod Example
