pub mod Calls
pub mod Conversions
pub mod Ends
pub mod Fills
pub mod FoundItems
pub mod Needs
pub mod Receivers
pub mod Waits
