pub mod Pieces
pub mod Precedence
pub mod CanonicalTokens
pub mod Layout
pub mod WellFormed
pub mod Laws
pub mod inner
