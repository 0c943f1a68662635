pub mod Numerals
pub mod Conversions
pub mod Comparisons
pub mod Literals
pub mod Laws
pub mod inner
