pub mod Arguments
pub mod Leading
pub mod Lines
pub mod Messages
pub mod Objects
pub mod Turns
