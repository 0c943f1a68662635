pub mod Steps
pub mod Stores
pub mod Acts
pub mod Chains
pub mod Leaves
pub mod Passing
pub mod Unwinding
pub mod Depths
