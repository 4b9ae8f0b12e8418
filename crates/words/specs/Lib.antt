pub mod Words
pub mod WordLaws
