pub mod OfferLaws
pub mod OneLaws
