pub mod Amounts
pub mod Answers
pub mod Ascii
pub mod Parts
