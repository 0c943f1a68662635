pub mod NameLists
pub mod Firsts
pub mod KeyLists
pub mod Examples
pub mod Order
pub mod Binding
pub mod Places
