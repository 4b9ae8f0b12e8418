pub mod VerdictPlaces
pub mod VerdictStored
