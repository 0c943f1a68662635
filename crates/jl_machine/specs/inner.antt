pub mod Going
pub mod Handed
pub mod Starts
