pub mod HookCalls
pub mod HookTable
pub mod Spelled
