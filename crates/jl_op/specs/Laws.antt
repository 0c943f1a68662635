-- What the definitions of this crate come to.
use Rattle.std.specs.Prelude.{◌≡◌, ◌↔◌, ℕ, Some, slice_get}
use Rattle.jl_op.specs.declared.kind.OpKind.{OpKind}
use Rattle.jl_op.specs.Kinds.{all_kinds, number_of}

-- the list of kinds has each kind at its number, and nowhere else
abbrev pub EachKindOnce : Type 0
EachKindOnce = (kind : OpKind) (index : ℕ) → (slice_get all_kinds index ≡ Some kind) ↔ (index ≡ number_of kind)
