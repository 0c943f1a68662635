pub mod Arguments
pub mod Called
pub mod Objects
pub mod Pieces
pub mod Splits
pub mod Turns
