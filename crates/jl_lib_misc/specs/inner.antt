pub mod Extremes
pub mod Numbers
pub mod Radix
