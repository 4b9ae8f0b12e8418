pub mod Answers
pub mod Judged
pub mod TableLaws
pub mod Tables
pub mod Views
