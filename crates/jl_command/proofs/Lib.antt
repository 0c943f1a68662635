pub mod Choices
pub mod Digits
pub mod Examples
pub mod NamedCommands
pub mod NamedRules
pub mod Optional
pub mod WordLemmas
