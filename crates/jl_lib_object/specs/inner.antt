pub mod Calls
pub mod Fields
pub mod Names
pub mod Parts
