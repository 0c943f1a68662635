pub mod Beginnings
pub mod Declarators
pub mod Ends
pub mod Selections
pub mod Turns
pub mod Values
pub mod Visited
