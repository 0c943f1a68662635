mod QuietParts
pub mod Bare
mod BareIds
mod Tables
mod Relation
mod Forms
mod MadeFunctions
mod Declarations
mod Calls
mod Expressions
mod Statements
mod Turns
mod Functions
mod Jobs
pub mod Programs
