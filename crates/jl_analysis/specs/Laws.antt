-- What the definitions of this crate come to.
use Rattle.std.specs.Prelude.{◌≡◌, ℕ, Bool, true, List, Some}
use Rattle.jl_op.specs.declared.kind.OpKind.{OpKind}
use Rattle.jl_op.specs.KindSets.{of_kinds}
use Rattle.jl_op.specs.Operations.{Operation}
use Rattle.jl_analysis.specs.Rules.{name_at, is_needed}
use Rattle.jl_analysis.specs.Summary.{hits}

-- no name has two rules
abbrev pub OneName : Type 0
OneName = (i j : ℕ) (name : List ℕ) → name_at i ≡ Some name → name_at j ≡ Some name → i ≡ j

-- Where the operations are kept whose kind a chosen rule looks at, and of the others some or none, a chosen rule hits
-- at those that are kept as it hits at all.
abbrev pub NeededIsEnough : Type 0
NeededIsEnough =
    (chosen : ℕ → Bool) (kept : OpKind → Bool) → ((kind : OpKind) → is_needed chosen kind ≡ true → kept kind ≡ true)
    → (rule : ℕ) → chosen rule ≡ true → (operations : List Operation)
    → hits rule (of_kinds kept operations) ≡ hits rule operations
