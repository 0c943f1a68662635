pub mod KindsEnough
pub mod Observing
pub mod Rows
