pub mod HookForms
pub mod inner
