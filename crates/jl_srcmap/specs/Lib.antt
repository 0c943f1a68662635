pub mod Segments
pub mod Numbers
pub mod Mappings
pub mod Written
pub mod Hooks
pub mod SourceMap
pub mod Laws
pub mod inner
