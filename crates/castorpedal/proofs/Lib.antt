pub mod Rooms
pub mod DeskKept
pub mod Checks
pub mod Closes
