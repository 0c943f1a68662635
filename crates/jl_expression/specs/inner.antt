pub mod Begun
pub mod Forms
