pub mod Characters
pub mod Punctuators
pub mod Elements
pub mod Faults
pub mod Tokens
pub mod Spelling
pub mod inner
