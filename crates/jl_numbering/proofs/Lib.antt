pub mod Walk
pub mod Lists
pub mod Nodes
