pub mod Count
pub mod Bytes
pub mod Memory
pub mod Shelves
