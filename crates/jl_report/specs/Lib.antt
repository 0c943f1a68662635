pub mod Laws
pub mod Off
pub mod Reports
pub mod Texts
pub mod inner
