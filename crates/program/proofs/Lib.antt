pub mod PrintLaws
pub mod SmallKeys
