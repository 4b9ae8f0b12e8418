pub mod NeverStuck
pub mod SameBytes
pub mod SameClosing
