pub mod HookCalls
pub mod Weaving
pub mod CompoundAssignments
pub mod Plain
pub mod inner
pub mod Simulation
