pub mod Offers
pub mod OneSheet
