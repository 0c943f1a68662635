pub mod Number
pub mod Arithmetic
pub mod Power
pub mod Bits
pub mod Order
pub mod Digits
pub mod Laws
