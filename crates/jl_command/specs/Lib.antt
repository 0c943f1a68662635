pub mod CommandLine
pub mod Asked
pub mod Meant
pub mod inner
