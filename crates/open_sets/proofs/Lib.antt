pub mod OpenLaws
pub mod SearchLaws
pub mod AmongLaws
pub mod Zeros
