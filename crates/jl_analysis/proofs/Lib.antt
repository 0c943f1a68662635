pub mod Boxes
pub mod Counting
pub mod Crowds
pub mod Needed
pub mod Filling
pub mod KindsAdded
pub mod RuleNames
