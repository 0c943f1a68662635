pub mod Counting
pub mod Keyed
pub mod Keys
pub mod KindsEnough
pub mod Observing
pub mod Pushing
