mod SameTable
mod KeptHooks
mod Places
pub mod Binds
pub mod NoEarlyErrors
pub mod MadeFunctions
pub mod Declarations
