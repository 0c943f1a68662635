pub mod Letters
pub mod Methods
pub mod Turns
