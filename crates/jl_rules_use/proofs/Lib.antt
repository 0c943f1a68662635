pub mod CalledByNew
pub mod Entered
pub mod Ways
