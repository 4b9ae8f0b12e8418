pub mod TextLaws
pub mod LineLaws
