pub mod Bodies
pub mod Constructions
pub mod Entries
pub mod Targets
