pub mod Filling
pub mod inner
