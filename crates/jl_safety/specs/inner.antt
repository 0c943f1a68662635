pub mod Jumps
pub mod Sound
