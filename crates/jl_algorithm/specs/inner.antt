pub mod Leaves
pub mod Lengths
pub mod PutPlans
