pub mod Chains
pub mod Deciding
pub mod Elements
pub mod Entries
pub mod Lengths
pub mod Made
