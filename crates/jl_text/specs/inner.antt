pub mod Seeking
pub mod Held
