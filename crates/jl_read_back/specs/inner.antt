pub mod Bytes
pub mod Weight
pub mod Width
