pub mod Exported
pub mod Settled
pub mod AsPromised
