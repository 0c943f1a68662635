pub mod Chosen
pub mod Laws
pub mod Memories
pub mod Rules
pub mod Summary
pub mod TypeRules
pub mod UseRules
pub mod Values
