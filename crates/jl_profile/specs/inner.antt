pub mod Observed
pub mod Rows
