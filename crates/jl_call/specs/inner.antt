pub mod Invoked
pub mod Notes
pub mod Taken
