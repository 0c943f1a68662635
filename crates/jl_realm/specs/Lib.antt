pub mod Global
pub mod inner
