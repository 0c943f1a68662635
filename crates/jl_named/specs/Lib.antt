pub mod Lending
pub mod Named
pub mod inner
