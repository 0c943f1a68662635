pub mod Births
pub mod Laws
pub mod inner
