pub mod Additions
pub mod Equalities
pub mod NoObjects
pub mod Operands
pub mod SameKind
