pub mod Begun
pub mod ByKind
pub mod Callees
pub mod Leaves
pub mod Pairs
pub mod Refused
pub mod Started
pub mod Targets
