pub mod Acts
pub mod Callees
pub mod Continuing
pub mod Ends
pub mod Hearing
pub mod Meanings
pub mod Ranks
