pub mod Counters
pub mod Same
pub mod Spoiling
pub mod Steps
