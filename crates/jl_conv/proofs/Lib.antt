pub mod Splits
pub mod Amounts
pub mod Values
pub mod Digits
pub mod ReadBack
pub mod Literals
pub mod OnlyLiterals
